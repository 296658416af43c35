pub mod Clean
pub mod Reading
pub mod Numbered
pub mod Monoids
pub mod Moments
pub mod Known
pub mod Waits
pub mod EditedTables
