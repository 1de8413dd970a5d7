pub mod Limits
pub mod Said
pub mod Outcomes
pub mod Head
pub mod Tables
pub mod Faults
pub mod Schedule
