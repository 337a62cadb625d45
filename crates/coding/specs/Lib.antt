pub mod Past
pub mod Reciprocals
