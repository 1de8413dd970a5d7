pub mod Numbers
pub mod Runs
pub mod Spans
pub mod Each
pub mod Within
pub mod Tiling
pub mod WorkedTexts
