pub mod Held
pub mod Numbers
pub mod Rows
pub mod Answers
pub mod Lines
