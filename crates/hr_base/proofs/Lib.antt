pub mod ListLaws
pub mod Tests
