pub mod Prefix
pub mod Serial
