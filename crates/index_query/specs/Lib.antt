pub mod Asking
pub mod Answers
