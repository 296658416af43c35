pub mod Ends
pub mod Finds
pub mod Folds
