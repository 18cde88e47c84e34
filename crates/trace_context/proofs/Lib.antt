pub mod Added
pub mod Carried
pub mod Lists
pub mod ReadBack
pub mod Texts
