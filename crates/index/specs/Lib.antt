pub mod Changes
pub mod CheckAnswers
pub mod Questions
pub mod QuestionLaws
pub mod Acts
pub mod NumberLaws
