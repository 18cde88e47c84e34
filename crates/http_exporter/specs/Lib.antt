pub mod Attempts
pub mod Failures
pub mod Tcp
pub mod Buffers
pub mod Deadlines
pub mod Kept
pub mod Compressed
