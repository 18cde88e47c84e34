pub mod LastOf
pub mod Environments
pub mod LastPairs
pub mod Ratios
pub mod Urls
pub mod Words
mod Resources
pub mod Decoding
pub mod Lists
pub mod HeaderSteps
