pub mod Steps
pub mod Driven
pub mod Runs
pub mod Played
