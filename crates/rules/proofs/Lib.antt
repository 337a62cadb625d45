pub mod Reading
pub mod WalkIs
pub mod Walking
pub mod FileIs
