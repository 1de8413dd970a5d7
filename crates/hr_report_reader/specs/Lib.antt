pub mod Blank
pub mod Words
pub mod Endings
pub mod Headings
pub mod Forms
pub mod Items
pub mod Told
pub mod Reading
