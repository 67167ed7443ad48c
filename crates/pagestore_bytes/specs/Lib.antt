pub mod Bytes
pub mod ByteLaws
