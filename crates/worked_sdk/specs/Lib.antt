-- What the examples are about.
pub mod Worked
pub mod Retried
pub mod Histories
pub mod Settings
pub mod Sent
pub mod Accounts
pub mod Chunked
pub mod Collectors
pub mod Meanings
pub mod Posted
pub mod Replied
pub mod OtherRules
pub mod TraceIds
pub mod Shops
pub mod LongKeys
pub mod Contents
pub mod Readings
