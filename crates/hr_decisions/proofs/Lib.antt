pub mod DecisionLemmas
pub mod OrderLemmas
