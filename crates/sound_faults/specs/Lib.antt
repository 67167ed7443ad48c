pub mod Prefixes
pub mod Faults
pub mod Stored
pub mod Shapes
pub mod Linked
pub mod Repeated
pub mod Decidable
