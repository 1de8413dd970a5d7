pub mod Blocks
pub mod Serial
