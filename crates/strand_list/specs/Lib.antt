pub mod Pages
pub mod Numbers
pub mod Laying
pub mod Steps
pub mod Replays
pub mod Chronicled
pub mod Chronicles
