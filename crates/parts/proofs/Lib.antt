pub mod Digits
pub mod Splitting
pub mod Turns
