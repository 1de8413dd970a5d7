pub mod Calls
pub mod Scripted
