mod Setting
pub mod Recorded
