pub mod Summing
pub mod Flat
pub mod Gathering
