pub mod RuleLaws
pub mod CarriedLaws
