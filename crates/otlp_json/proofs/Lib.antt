pub mod Spelled
pub mod Rows
pub mod Outcomes
pub mod Wholes
pub mod OnLiterals
pub mod Chains
pub mod Pieces
