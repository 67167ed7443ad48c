pub mod EndsLaws
pub mod EntryLaws
pub mod TurnLaws
