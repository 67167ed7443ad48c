pub mod TurnLaws
pub mod AnswerLaws
