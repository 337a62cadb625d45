pub mod Sample
pub mod Calls
