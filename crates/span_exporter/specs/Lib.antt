pub mod Handed
pub mod Room
pub mod Buffers
pub mod Views
pub mod Memory
