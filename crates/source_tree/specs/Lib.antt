pub mod Kinds
pub mod Source
pub mod Lowering
pub mod Layout
pub mod Packing
