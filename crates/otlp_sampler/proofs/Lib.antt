pub mod Decimals
pub mod Shares
pub mod Identifiers
pub mod Exponents
