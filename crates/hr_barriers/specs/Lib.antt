pub mod Played
pub mod Stamps
pub mod Served
