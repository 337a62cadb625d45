pub mod Inside
pub mod Sums
