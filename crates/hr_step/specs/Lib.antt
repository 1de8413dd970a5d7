pub mod Run
pub mod Within
