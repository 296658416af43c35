pub mod FirstFaults
pub mod Texts
pub mod Rules
pub mod Puts
pub mod Definitions
pub mod Numbers
