pub mod Printable
pub mod Name
pub mod Database
pub mod Kinds
pub mod Holds
pub mod Fit
