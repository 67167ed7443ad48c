pub mod RepeatsLaws
pub mod ChainLaws
pub mod Examples
