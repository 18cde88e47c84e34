pub mod Fronts
pub mod Varints
pub mod Fields
pub mod RowLaws
pub mod ReadBack
pub mod ValueBack
pub mod Composed
pub mod Lengths
