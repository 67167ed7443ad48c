pub mod Codes
pub mod CodeLaws
