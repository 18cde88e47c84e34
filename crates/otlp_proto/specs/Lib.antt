pub mod Keyed
pub mod Group
pub mod Encode
pub mod Grouped
pub mod Bodies
pub mod WireTypes
