pub mod Script
pub mod Told
pub mod Make
pub mod Wraps
pub mod MakeTells
pub mod Resolves
pub mod Losses
