pub mod OneRow
pub mod WrongPrimary
pub mod WrongSecondary
pub mod HonestConvicted
