pub mod Conditions
pub mod Expressions
pub mod Statements
pub mod Told
