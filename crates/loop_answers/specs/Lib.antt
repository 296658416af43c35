pub mod Ahead
pub mod Batches
pub mod Levels
