pub mod Lists
pub mod Noting
pub mod Steps
pub mod FilledLines
pub mod NumberThere
