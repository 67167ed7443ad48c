pub mod Acts
pub mod Lines
pub mod Grammar
pub mod Names
pub mod Input
pub mod Examples
