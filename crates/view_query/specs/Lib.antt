pub mod Words
pub mod Terms
pub mod Numbers
pub mod Reading
pub mod Matching
