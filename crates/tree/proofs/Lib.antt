pub mod CountLaws
pub mod FindLaws
