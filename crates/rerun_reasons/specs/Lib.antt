pub mod Reasons
pub mod Unanswered
