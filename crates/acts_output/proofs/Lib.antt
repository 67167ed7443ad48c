pub mod OutputLaws
pub mod PutLaws
pub mod ExampleLaws
