pub mod Spans
pub mod Readings
pub mod Full
pub mod ShortLists
pub mod Gifts
pub mod Parts
