pub mod Readers
pub mod Standings
pub mod Causes
