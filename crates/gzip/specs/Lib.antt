pub mod Reading
pub mod Tables
pub mod Symbols
pub mod Files
pub mod Once
pub mod FixedCodes
pub mod Copies
pub mod Streams
