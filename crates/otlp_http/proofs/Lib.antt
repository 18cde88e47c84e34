pub mod HeaderLemmas
pub mod FinalLemmas
pub mod RequestLemmas
pub mod LastingLemmas
