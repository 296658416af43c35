pub mod Ends
pub mod Refusals
pub mod Sums
