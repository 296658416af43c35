pub mod Lasts
pub mod OneMore
