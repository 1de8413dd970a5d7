pub mod Lists
pub mod Change
pub mod WordSteps
pub mod Splitting
pub mod Joining
pub mod Ends
