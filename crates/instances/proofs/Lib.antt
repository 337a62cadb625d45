pub mod Runs
pub mod Counts
pub mod Channel
pub mod Start
pub mod Flip
pub mod Settings
