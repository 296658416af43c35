pub mod KindWords
pub mod Reading
pub mod Ranges
pub mod Pieces
pub mod Grammar
pub mod Correct
pub mod Defining
pub mod Defined
