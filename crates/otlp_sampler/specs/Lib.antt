pub mod Sampling
pub mod Ratio
pub mod Decimal
pub mod Laws
