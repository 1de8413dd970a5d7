pub mod ValueOrder
pub mod Ascending
