pub mod Values
pub mod Spans
pub mod Lists
pub mod Pieces
