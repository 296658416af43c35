pub mod Layers
pub mod Folds
pub mod Records
pub mod Knowing
