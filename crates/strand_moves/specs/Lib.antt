pub mod Bare
pub mod Ends
pub mod Joins
