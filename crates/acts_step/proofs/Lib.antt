pub mod ActLaws
pub mod StepLaws
pub mod TakeLaws
pub mod AdvanceLaws
pub mod TextLaws
pub mod PrintLaws
