pub mod Writing
pub mod Keeping
pub mod Judging
