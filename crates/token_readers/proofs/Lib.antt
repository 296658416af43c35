pub mod Never
pub mod Ends
pub mod Known
