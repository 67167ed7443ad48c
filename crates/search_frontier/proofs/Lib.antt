pub mod KeyLaws
pub mod OpenLaws
