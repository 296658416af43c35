pub mod Balances
pub mod Histories
pub mod Ends
pub mod Over
pub mod Spots
