pub mod Lists
pub mod Counters
pub mod Bytes
pub mod Texts
