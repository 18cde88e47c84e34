pub mod Grouped
pub mod Equalities
