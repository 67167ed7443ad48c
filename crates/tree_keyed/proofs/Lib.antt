pub mod KeyedLaws
