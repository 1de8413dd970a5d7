pub mod PartLemmas
pub mod StatementLemmas
pub mod TurnLemmas
