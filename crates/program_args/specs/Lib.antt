pub mod Faults
pub mod Line
pub mod Words
