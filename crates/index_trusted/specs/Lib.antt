pub mod Changes
pub mod Questions
