pub mod Counts
pub mod Befores
pub mod Indexed
pub mod Told
