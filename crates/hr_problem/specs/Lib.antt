pub mod Problems
pub mod Sooner
