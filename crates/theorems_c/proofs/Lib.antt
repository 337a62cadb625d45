pub mod Runs
pub mod Instance
pub mod Start
