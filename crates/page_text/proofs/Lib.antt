pub mod Reading
pub mod Writing
pub mod Bounds
pub mod Steps
