pub mod Crosses
pub mod Endings
pub mod Names
pub mod Whole
pub mod Traces
pub mod Replays
pub mod Stepping
pub mod Thefts
