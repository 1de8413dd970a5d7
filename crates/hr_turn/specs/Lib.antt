pub mod Entries
pub mod Views
pub mod Turns
pub mod Steps
pub mod Passes
