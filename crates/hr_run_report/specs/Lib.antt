pub mod ByEntries
pub mod Endings
pub mod Convictions
pub mod Report
