pub mod Order
pub mod Entries
pub mod Identity
pub mod Steps
