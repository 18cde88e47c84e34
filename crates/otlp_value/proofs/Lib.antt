pub mod Setting
pub mod Cutting
