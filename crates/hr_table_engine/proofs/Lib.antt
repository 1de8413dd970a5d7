pub mod Slots
pub mod Runs
pub mod Ends
pub mod Loops
