pub mod Consumed
pub mod Written
