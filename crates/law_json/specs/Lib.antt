pub mod Back
pub mod Sound
pub mod Kept
pub mod Laws
