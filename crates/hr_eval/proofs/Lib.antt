pub mod AnsweringLaws
pub mod Each
pub mod GroupLaws
pub mod Listed
pub mod Picks
pub mod TallyLaws
