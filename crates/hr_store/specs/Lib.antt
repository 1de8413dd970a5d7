pub mod Places
pub mod Cells
pub mod Changes
pub mod Loads
pub mod Scans
pub mod Store
