pub mod Standing
pub mod Ending
pub mod Batches
pub mod Runs
mod Settling
pub mod Telling
pub mod Calling
pub mod Bodies
mod SpanSteps
mod SpanCalls
pub mod Places
pub mod Texts
