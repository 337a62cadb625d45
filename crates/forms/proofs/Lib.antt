pub mod Into
pub mod Back
