pub mod FinishLaws
pub mod RepeatLaws
pub mod VerdictLaws
