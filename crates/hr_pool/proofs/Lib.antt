pub mod Firsts
pub mod Searches
pub mod Repeats
pub mod GiveWay
