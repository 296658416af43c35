pub mod Stock
pub mod Seen
pub mod Short
pub mod Either
