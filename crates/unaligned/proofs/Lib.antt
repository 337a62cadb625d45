pub mod Digits
pub mod Later
