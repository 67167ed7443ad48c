pub mod AskLaws
pub mod QuestionLaws
