pub mod Attributes
pub mod Spans
pub mod Identifiers
pub mod Sampling
pub mod Starts
pub mod Dropped
