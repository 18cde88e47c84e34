pub mod Writing
pub mod Fields
pub mod Faults
pub mod Response
pub mod Gathering
