pub mod Answers
pub mod Coming
pub mod Sessions
