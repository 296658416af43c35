pub mod DefineLines
pub mod Places
