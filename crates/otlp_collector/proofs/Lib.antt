pub mod Replies
pub mod Each
pub mod Fronts
pub mod Listed
pub mod Views
mod Prints
