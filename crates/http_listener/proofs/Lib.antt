pub mod Leading
pub mod Looking
pub mod Sweeping
pub mod InTime
pub mod Living
pub mod Counting
pub mod Joining
mod Added
mod Images
