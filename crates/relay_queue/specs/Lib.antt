-- What contracts see of a desk of bodies.
pub mod Bodies
pub mod Inside
-- What contracts see of a sender of bodies.
pub mod Senders
pub mod Views
pub mod Steps
-- What contracts see of names of lost spans.
pub mod Lost
pub mod Named
pub mod Walk
