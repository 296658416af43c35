pub mod Paths
pub mod Taking
pub mod Ending
pub mod Outcomes
pub mod Playing
