pub mod Beginnings
pub mod Commands
pub mod Digits
pub mod Said
