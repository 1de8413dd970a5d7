pub mod Wrong
pub mod Found
