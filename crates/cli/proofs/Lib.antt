pub mod Headline
pub mod Opening
