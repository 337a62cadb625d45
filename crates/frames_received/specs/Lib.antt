pub mod Buffers
pub mod Loops
