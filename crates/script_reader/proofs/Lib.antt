pub mod Beginnings
pub mod Digits
pub mod Rest
pub mod Shown
