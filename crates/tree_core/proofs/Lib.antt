pub mod HeldLaws
pub mod EntryLaws
pub mod InsertionLaws
pub mod RootLaws
pub mod DeletionLaws
pub mod LookupLaws
