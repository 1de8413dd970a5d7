pub mod Conflicts
pub mod Views
pub mod Keeps
pub mod Lends
