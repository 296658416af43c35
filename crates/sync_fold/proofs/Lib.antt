pub mod Counting
pub mod Crosses
mod Fitting
mod Places
mod Keeping
pub mod Refusals
