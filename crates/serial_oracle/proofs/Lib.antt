pub mod Searching
pub mod Evaluating
pub mod Forgetting
pub mod Noted
pub mod OneKindMore
pub mod Initials
pub mod Steps
pub mod Scratch
