pub mod Given
pub mod Slots
pub mod Waiting
pub mod Turned
