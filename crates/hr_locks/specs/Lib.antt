pub mod Locks
pub mod Cycles
pub mod Waits
pub mod Grants
pub mod Table
pub mod Seen
pub mod Searches
