pub mod FollowUps
pub mod Turns
