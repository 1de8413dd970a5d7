pub mod WrongLaws
pub mod Verdicts
