pub mod Again
pub mod Lists
pub mod Steps
pub mod Events
