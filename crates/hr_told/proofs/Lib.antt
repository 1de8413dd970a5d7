pub mod FromOne
