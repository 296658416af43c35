pub mod LeafSteps
pub mod LeafChains
pub mod AnsweredChains
pub mod Outcomes
pub mod HalfSettled
pub mod Kept
pub mod Own
pub mod Amid
