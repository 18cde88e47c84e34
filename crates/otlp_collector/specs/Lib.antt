pub mod Answering
pub mod Lines
pub mod Printed
pub mod Words
pub mod Command
pub mod Failures
pub mod Served
