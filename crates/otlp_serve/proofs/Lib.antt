pub mod AnswerLemmas
pub mod PostLemmas
pub mod ReplyLemmas
