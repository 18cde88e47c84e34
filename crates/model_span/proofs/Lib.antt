pub mod Lists
pub mod Setting
pub mod Calls
pub mod Live
