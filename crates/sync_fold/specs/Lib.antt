pub mod Books
pub mod Refusals
pub mod Counts
