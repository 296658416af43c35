pub mod Listing
pub mod Keeping
pub mod Results
pub mod Worths
pub mod Ranges
pub mod Pieces
pub mod Scoped
pub mod Answers
