pub mod Folding
pub mod Results
pub mod Settling
