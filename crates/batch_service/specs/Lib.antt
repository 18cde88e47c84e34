pub mod Working
pub mod Limits
pub mod Rest
pub mod Refusals
pub mod Service
pub mod Room
pub mod Naming
