pub mod Answering
pub mod Coming
pub mod Errors
