pub mod SpreadLaws
