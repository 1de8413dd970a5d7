pub mod CellLaws
pub mod Walks
pub mod EndLaws
pub mod PutLaws
pub mod StoreLaws
pub mod ViewLaws
