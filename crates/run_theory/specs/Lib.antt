pub mod RightRuns
pub mod OverRuns
pub mod Theorems
pub mod Recorded
pub mod Progress
pub mod UnflaggedRuns
