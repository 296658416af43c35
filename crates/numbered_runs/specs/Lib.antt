pub mod Named
pub mod News
pub mod Sound
pub mod Starts
pub mod Come
pub mod Recorded
