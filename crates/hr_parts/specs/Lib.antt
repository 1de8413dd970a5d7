pub mod Parts
pub mod Footprints
pub mod Keys
pub mod Attempts
