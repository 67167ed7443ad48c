pub mod CountLaws
pub mod OrderLaws
pub mod TestLaws
pub mod WindowLaws
pub mod CodeLaws
pub mod Promises
