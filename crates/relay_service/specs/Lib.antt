pub mod Lost
pub mod Receives
pub mod Serves
pub mod Shows
pub mod Stats
