pub mod Marks
pub mod Words
pub mod Scanning
