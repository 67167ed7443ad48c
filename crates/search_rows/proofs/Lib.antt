pub mod RowLaws
pub mod HeldLaws
