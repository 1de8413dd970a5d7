pub mod RunLemmas
pub mod NextCalls
pub mod CallLemmas
pub mod BlockLemmas
pub mod TryLemmas
pub mod FrontLemmas
pub mod OrderLemmas
pub mod OnceLemmas
