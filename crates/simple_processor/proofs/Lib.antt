mod Lists
mod Agree
mod Counts
mod Ends
mod Closing
pub mod Crosses
