pub mod Orders
pub mod Draws
pub mod Made
