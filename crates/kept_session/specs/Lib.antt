pub mod Sessions
pub mod Applied
