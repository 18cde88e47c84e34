-- What a simple processor shows, and what its passes know.
pub mod Accounts
pub mod AnyAccounts
pub mod Bodies
pub mod ExportStates
pub mod Kept
