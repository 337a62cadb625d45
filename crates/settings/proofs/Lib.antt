pub mod Finding
pub mod Options
pub mod Answers
