pub mod Endings
pub mod Failed
pub mod Failing
pub mod Statuses
pub mod Written
