pub mod Summed
pub mod Rows
pub mod FlatSums
