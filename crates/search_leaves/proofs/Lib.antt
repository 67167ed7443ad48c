pub mod WordLaws
pub mod ColumnLaws
pub mod LeafLaws
pub mod CandidateLaws
