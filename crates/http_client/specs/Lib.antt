pub mod Faults
pub mod Requests
pub mod Refusals
pub mod Exchanges
pub mod KeptLinks
