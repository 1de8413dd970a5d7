pub mod Taken
pub mod Blocks
pub mod Few
pub mod Steps
pub mod Sound
