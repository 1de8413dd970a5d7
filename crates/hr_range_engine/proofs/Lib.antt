pub mod Found
pub mod Ends
pub mod Changed
pub mod Runs
pub mod Looks
pub mod Needs
pub mod Starts
