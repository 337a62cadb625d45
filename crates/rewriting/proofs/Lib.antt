pub mod Around
pub mod Afresh
