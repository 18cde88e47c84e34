pub mod Retries
pub mod Waits
pub mod Queue
pub mod Desks
