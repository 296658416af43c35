pub mod Names
pub mod Books
pub mod Broken
pub mod Laws
pub mod Folds
pub mod Recorded
pub mod RecordedStrands
pub mod UnflaggedSteps
