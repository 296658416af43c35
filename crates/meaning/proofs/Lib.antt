pub mod Crosses
pub mod Samples
pub mod Edits
pub mod Runs
pub mod Reruns
pub mod Recordings
pub mod Texts
