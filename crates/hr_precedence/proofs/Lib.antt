pub mod JobOrder
pub mod FirstInRank
pub mod ComesFirst
pub mod Owed
pub mod Search
pub mod WaitsKept
pub mod GivesWayLemmas
pub mod LiveVotes
