pub mod ClaimLemmas
pub mod PendingLemmas
pub mod TryLemmas
pub mod NextLemmas
