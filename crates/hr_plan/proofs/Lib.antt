pub mod Columns
pub mod PathLaws
pub mod SpanLaws
