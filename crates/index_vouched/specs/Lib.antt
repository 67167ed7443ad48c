pub mod Vouched
pub mod VouchedLaws
