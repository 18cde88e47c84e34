pub mod Each
pub mod Numbers
pub mod Texts
pub mod Spelled
