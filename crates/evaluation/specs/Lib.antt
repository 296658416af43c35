pub mod Slots
pub mod Values
pub mod Ends
pub mod Numbers
pub mod Short
