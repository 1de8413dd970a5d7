pub mod RowSteps
pub mod NumberLaws
pub mod RowLaws
pub mod LineLaws
pub mod AnswerLaws
