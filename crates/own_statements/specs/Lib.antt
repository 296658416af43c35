pub mod Fills
pub mod Paths
pub mod Runs
pub mod Leaves
pub mod Recursion
pub mod Effects
