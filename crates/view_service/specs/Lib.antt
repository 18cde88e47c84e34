pub mod Keepers
pub mod Receives
pub mod Routes
pub mod Serves
pub mod Shows
pub mod Drawn
pub mod Listed
pub mod Metrics
