pub mod Counts
pub mod Spans
pub mod Open
pub mod Made
pub mod Making
pub mod Threads
pub mod Keeping
