pub mod Keys
pub mod Opening
