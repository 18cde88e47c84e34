pub mod RunLemmas
mod Dates
