pub mod LedLemmas
pub mod UnaskedLemmas
pub mod ReadyLemmas
