pub mod SpanLaws
pub mod KeyLaws
pub mod LeadLaws
pub mod PageLaws
