pub mod Needs
pub mod Spans
pub mod Paths
