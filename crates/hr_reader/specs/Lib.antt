pub mod Shaped
pub mod Rows
pub mod Reading
pub mod Tables
