pub mod Words
pub mod Headings
pub mod Acts
pub mod Columns
pub mod Forms
pub mod Choices
