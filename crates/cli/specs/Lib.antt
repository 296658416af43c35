pub mod Begun
pub mod Formatted
pub mod Headline
pub mod Reports
