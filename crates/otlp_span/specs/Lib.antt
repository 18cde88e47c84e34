pub mod Parts
pub mod Pairs
pub mod Recording
pub mod Dropped
pub mod Slips
pub mod SlipFalls
pub mod Body
pub mod Resources
