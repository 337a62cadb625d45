pub mod Flip
