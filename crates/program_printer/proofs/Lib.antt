pub mod Parts
pub mod Blocks
pub mod Rescan
pub mod Sizes
