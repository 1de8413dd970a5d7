pub mod Replies
pub mod Correct
