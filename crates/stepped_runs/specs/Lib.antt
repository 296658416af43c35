pub mod Pieces
pub mod Runs
pub mod Stands
pub mod Layered
pub mod Simulation
pub mod Halves
pub mod Ends
pub mod Progress
