pub mod PrefixLemmas
pub mod Distinct
pub mod Processed
pub mod PlayedAt
pub mod SerialLemmas
