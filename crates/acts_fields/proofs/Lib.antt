pub mod DigitLaws
pub mod UntilLaws
pub mod StoreLaws
pub mod FieldLaws
