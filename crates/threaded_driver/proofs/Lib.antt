pub mod Binding
pub mod Crosses
pub mod Feeding
pub mod Names
pub mod Settling
pub mod Staying
