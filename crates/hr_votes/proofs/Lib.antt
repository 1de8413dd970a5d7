pub mod Counts
pub mod Marks
pub mod Chained
pub mod Sound
pub mod Places
