pub mod Named
pub mod Blocks
pub mod Counting
pub mod NewNumbers
pub mod NewNames
pub mod NewRevisions
pub mod NameForms
