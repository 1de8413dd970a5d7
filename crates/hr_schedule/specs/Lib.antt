pub mod Tries
pub mod Scripts
pub mod Sessions
pub mod Choices
pub mod Claims
