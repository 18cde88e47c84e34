pub mod Failures
pub mod Command
