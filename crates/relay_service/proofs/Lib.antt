mod Answered
mod Answering
pub mod Counted
mod Unchanged
