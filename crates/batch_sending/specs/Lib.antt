-- What contracts see of a batch on its way to an exporter.
pub mod Sendings
pub mod Views
pub mod Answers
