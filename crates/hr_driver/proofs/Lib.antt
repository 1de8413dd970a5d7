pub mod TurnParts
pub mod ReplyLemmas
pub mod SuspectLemmas
pub mod SessionLemmas
pub mod CallLemmas
pub mod RoundLemmas
