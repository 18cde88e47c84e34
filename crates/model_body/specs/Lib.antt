pub mod Names
pub mod Histories
pub mod Desks
pub mod Laws
pub mod Examples
