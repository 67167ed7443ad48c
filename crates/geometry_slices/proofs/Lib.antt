pub mod QuestionLaws
pub mod PackedLaws
pub mod AskLaws
pub mod RowLaws
pub mod TableLaws
pub mod UnweightedLaws
pub mod WholeLaws
