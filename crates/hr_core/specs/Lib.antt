pub mod Suspects
pub mod Seats
pub mod Turns
pub mod Told
pub mod Copies
