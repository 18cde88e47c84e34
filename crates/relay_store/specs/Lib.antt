-- What contracts see of the bodies that a relay keeps.
pub mod Fronts
pub mod Kept
pub mod Inside
-- What contracts see of what threads share.
pub mod Holds
pub mod Together
pub mod Sharing
pub mod Accounts
pub mod Agreement
pub mod Handlers
pub mod Balances
pub mod Examples
