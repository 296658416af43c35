pub mod Lists
pub mod Turned
pub mod Counted
pub mod Batches
pub mod Replays
pub mod Levels
pub mod SoFar
pub mod Spawns
