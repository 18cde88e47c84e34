pub mod Views
mod Doubles
pub mod Printed
mod Stages
