pub mod Ahead
pub mod Chains
pub mod Stepped
pub mod Leaves
pub mod RecordedHalves
