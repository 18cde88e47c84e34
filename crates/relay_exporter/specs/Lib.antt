pub mod Outages
pub mod Attempts
