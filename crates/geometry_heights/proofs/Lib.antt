pub mod FillLaws
pub mod OneLaws
