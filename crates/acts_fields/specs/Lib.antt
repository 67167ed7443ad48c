pub mod Bytes
pub mod Decimal
pub mod Fields
