pub mod Meets
pub mod Sound
pub mod Tells
pub mod Locks
pub mod Stores
pub mod Calls
