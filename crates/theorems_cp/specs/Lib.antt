pub mod Examples
pub mod RoundTrip
pub mod Empty
pub mod Lengths
pub mod Dil
pub mod Plan
pub mod Ignored
