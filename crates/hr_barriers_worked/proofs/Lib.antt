pub mod Honest
pub mod Others
