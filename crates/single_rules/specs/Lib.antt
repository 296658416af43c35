pub mod Settings
pub mod Own
pub mod Filled
pub mod Kept
