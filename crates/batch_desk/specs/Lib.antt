-- What contracts see of a desk, of a batch and of counts.
pub mod Views
pub mod Batch
pub mod Desk
pub mod Counts
pub mod Inside
