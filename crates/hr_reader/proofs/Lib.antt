pub mod Order
pub mod Kept
pub mod Loop
pub mod Few
