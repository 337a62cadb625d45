pub mod Walk
pub mod Settings
