pub mod Carved
pub mod Lengths
pub mod Owners
pub mod PlacesLaws
pub mod Rooms
pub mod Steps
