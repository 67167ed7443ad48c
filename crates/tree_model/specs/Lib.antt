pub mod Trees
pub mod Sound
pub mod Inserting
pub mod Deleting
pub mod TreeLaws
pub mod ModelExamples
