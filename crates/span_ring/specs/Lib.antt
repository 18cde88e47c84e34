-- What contracts see of a ring and of a run, and how the segments of a ring hold its items.
pub mod Places
pub mod Room
pub mod Run
pub mod Segments
pub mod SpanRing
