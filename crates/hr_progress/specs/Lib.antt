pub mod Plain
pub mod Seen
pub mod Kept
pub mod View
pub mod GivenTo
