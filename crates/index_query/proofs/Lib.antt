pub mod AskingLaws
pub mod PointLaws
pub mod AnswerLaws
