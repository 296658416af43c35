pub mod Begins
pub mod Ends
