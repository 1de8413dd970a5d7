pub mod Names
pub mod Undo
pub mod Laws
