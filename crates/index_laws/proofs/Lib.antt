pub mod Series
pub mod Identifiers
pub mod TrustedActs
pub mod VouchedActs
pub mod DeletePages
pub mod Weights
mod ZeroWeights
