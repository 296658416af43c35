pub mod Packed
pub mod Pools
pub mod Counting
pub mod Laying
pub mod LoweredTrees
