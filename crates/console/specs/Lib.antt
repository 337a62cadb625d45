pub mod SystemErrors
pub mod Trouble
