pub mod Outcome
pub mod CheckSound
