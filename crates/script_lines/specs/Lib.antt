pub mod Defines
pub mod Lines
pub mod Words
