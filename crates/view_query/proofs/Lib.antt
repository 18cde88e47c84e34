pub mod Parts
pub mod Skipped
