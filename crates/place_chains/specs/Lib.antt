pub mod Mixing
pub mod Chains
