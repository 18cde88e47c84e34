pub mod Tally
pub mod Crosses
pub mod ReasonTally
