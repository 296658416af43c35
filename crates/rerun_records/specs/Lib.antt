pub mod Put
pub mod Sums
pub mod Blocks
pub mod Covers
pub mod Skips
pub mod Settled
pub mod Line
