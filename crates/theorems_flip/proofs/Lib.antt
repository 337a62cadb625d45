pub mod Linear
pub mod Frames
pub mod Table
pub mod Places
pub mod Hit
pub mod Flip
