pub mod EvidenceLemmas
pub mod CountLemmas
pub mod ReplyWords
pub mod WaitWords
pub mod ReplyLemmas
pub mod DifferLemmas
pub mod ContradictedLemmas
pub mod OwedLemmas
