pub mod SpanContext
pub mod WordStream
