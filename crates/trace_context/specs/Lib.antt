pub mod Digits
pub mod Traceparent
pub mod Outgoing
pub mod Keys
pub mod Tracestate
pub mod Carriers
pub mod Pairs
