pub mod SpanBoundLaws
