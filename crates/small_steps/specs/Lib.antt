pub mod Ends
pub mod Ready
pub mod Steps
