mod SoFar
pub mod Refusals
pub mod LineLemmas
mod FormLemmas
mod HeadLemmas
mod TableLemmas
mod RowLemmas
mod FaultLemmas
mod SessionLemmas
mod ScheduleLemmas
mod ReadLemmas
