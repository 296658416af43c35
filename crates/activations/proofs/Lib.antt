pub mod Crosses
pub mod Slots
pub mod Orders
pub mod SameNames
pub mod Alone
