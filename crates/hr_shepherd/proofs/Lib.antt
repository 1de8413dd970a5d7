pub mod Allowed
pub mod Owners
pub mod Lent
pub mod Growing
pub mod Promised
pub mod Crossing
