pub mod Chronicle
pub mod Kept
pub mod Told
