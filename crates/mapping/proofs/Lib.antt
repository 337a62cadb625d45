pub mod Lowest
pub mod Drawing
pub mod Tables
