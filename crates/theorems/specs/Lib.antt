pub mod Runs
pub mod Counts
pub mod Channel
pub mod Alike
pub mod Off
