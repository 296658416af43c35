pub mod Refused
pub mod Renumbered
pub mod Scanned
