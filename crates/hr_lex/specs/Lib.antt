pub mod Bytes
pub mod Keywords
pub mod Numbers
pub mod Quotes
pub mod Signs
pub mod Tokens
