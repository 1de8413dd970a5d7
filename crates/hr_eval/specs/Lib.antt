pub mod Tuples
pub mod Numbers
pub mod SoFar
pub mod Tallies
pub mod Groups
pub mod Answerings
