pub mod Pages
pub mod Written
pub mod Doubles
