pub mod Words
pub mod Columns
pub mod Conditions
pub mod Expressions
pub mod Rows
pub mod Selects
pub mod Fitting
