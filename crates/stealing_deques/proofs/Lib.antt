pub mod Keeps
pub mod Lists
pub mod Shown
