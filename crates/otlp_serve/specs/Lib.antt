pub mod Answers
pub mod HeadLaws
pub mod Parses
pub mod Posts
pub mod Replies
pub mod RequestHeads
