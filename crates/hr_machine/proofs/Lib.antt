pub mod InsertLaws
pub mod MachineLaws
pub mod Spans
pub mod SelectLaws
pub mod UpdateLaws
