pub mod LineLemmas
pub mod AsciiLemmas
