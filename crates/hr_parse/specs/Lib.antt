pub mod Words
pub mod Trees
pub mod Lexemes
pub mod Readers
pub mod Grammar
pub mod Parse
