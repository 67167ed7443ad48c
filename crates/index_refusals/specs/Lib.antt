pub mod Refusals
pub mod RefusalLaws
pub mod Outcomes
pub mod OutcomeLaws
pub mod Trusted
pub mod TrustedLaws
