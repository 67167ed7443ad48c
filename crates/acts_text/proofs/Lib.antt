pub mod CellLaws
pub mod SplitLaws
pub mod LineLaws
pub mod PrefixLaws
pub mod NameLaws
pub mod InputLaws
pub mod ExampleLaws
