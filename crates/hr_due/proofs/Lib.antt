pub mod Orders
pub mod Tallies
