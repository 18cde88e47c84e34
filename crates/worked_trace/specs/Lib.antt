pub mod Hex
pub mod Samples
pub mod Written
pub mod Bytes
pub mod Expected
pub mod Read
pub mod Steps
