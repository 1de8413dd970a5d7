pub mod Shown
pub mod Changed
pub mod Laws
pub mod Handed
