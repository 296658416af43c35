pub mod Ready
pub mod Faults
pub mod Recorded
