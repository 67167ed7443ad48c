pub mod VisitLaws
pub mod MarksLaws
pub mod KthLaws
pub mod RangesLaws
pub mod Promises
pub mod FrontierLaws
