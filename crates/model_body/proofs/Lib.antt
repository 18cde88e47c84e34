pub mod Joined
pub mod Steps
pub mod Events
pub mod Sound
pub mod Accounts
pub mod Losses
pub mod Retries
