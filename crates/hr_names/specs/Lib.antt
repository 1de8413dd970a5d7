pub mod Scope
pub mod Operands
pub mod Names
pub mod Seen
