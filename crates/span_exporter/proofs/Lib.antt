pub mod Crosses
pub mod Outcomes
pub mod Rooms
