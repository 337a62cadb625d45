pub mod Faults
pub mod Entries
