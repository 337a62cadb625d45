pub mod Tables
pub mod Drawing
