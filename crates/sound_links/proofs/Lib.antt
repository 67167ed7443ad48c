pub mod MarkLaws
pub mod MarkedLaws
pub mod WalkLaws
