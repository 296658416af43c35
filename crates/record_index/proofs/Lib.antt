pub mod Commits
pub mod Counts
pub mod NumbersThen
pub mod Befores
pub mod Revisions
pub mod Edits
mod RowSums
pub mod Asking
