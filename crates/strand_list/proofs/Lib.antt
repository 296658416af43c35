pub mod Lists
pub mod Apart
pub mod Steps
pub mod Replays
pub mod Numbered
