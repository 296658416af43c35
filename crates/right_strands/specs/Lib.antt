pub mod Remembering
pub mod Picked
pub mod Rightness
pub mod Laid
pub mod Pairs
pub mod Waiting
pub mod Staying
