pub mod Ends
pub mod Updates
pub mod Recordings
pub mod Folds
pub mod Gatherings
pub mod Ranks
pub mod Owners
