pub mod NotAllCorrect
pub mod PrimaryLost
pub mod PrimarySuspected
