pub mod InsertPromises
pub mod ChildPromises
pub mod SpacePromises
pub mod UpwardExample
