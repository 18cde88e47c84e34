pub mod Args
pub mod Balance
pub mod Command
pub mod Losses
pub mod Memory
pub mod Rounds
pub mod Verdicts
