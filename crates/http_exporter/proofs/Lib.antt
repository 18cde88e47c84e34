pub mod BufferLemmas
pub mod Crosses
pub mod FailureLemmas
pub mod FrontLemmas
pub mod KeptLemmas
pub mod CompressedLemmas
