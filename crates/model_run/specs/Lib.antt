pub mod Runs
pub mod Answers
pub mod Headline
pub mod Steps
pub mod History
pub mod Queues
pub mod Laws
