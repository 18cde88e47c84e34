pub mod Histories
pub mod Names
pub mod Crosses
