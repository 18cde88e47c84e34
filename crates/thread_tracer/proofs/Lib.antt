pub mod Places
pub mod Roots
