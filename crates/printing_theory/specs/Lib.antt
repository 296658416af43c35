pub mod Again
pub mod Normal
