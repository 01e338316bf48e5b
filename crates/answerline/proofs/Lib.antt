pub mod AnswerLaws
pub mod Distinct
pub mod PieceLaws
pub mod PutLaws
pub mod Unique
