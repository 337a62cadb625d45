pub mod Stream
pub mod SixSigns
pub mod Division
