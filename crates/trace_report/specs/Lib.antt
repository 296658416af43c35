pub mod Amounts
pub mod Outcomes
pub mod Traces
