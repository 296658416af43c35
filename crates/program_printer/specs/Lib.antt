pub mod Printing
pub mod Tokens
