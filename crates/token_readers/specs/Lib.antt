pub mod Limits
pub mod Reading
pub mod Lines
pub mod Rooms
pub mod Seen
