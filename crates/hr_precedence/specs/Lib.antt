pub mod Ends
pub mod GivesWay
