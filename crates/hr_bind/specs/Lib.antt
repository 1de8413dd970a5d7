pub mod Bound
pub mod Bind
pub mod Prepare
