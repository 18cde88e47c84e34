mod Started
mod Traced
mod GoesOn
mod Closed
mod Texts
mod Served
mod Queries
pub mod Methods
