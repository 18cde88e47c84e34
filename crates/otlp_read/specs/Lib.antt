pub mod Values
pub mod Members
pub mod Resources
pub mod Spans
pub mod Requests
pub mod Triples
pub mod Memory
