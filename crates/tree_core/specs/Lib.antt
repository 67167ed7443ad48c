pub mod Entries
pub mod Insertion
pub mod Deletion
pub mod Lookup
pub mod Keyed
pub mod Held
pub mod CodeTerms
