pub mod Moves
pub mod Strands
pub mod Folds
pub mod Cores
pub mod Keeps
pub mod Going
pub mod Leaving
