pub mod Setups
pub mod Sums
pub mod Ends
pub mod Lines
pub mod Names
