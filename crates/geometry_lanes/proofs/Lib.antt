pub mod SlopeLaws
pub mod LaneLaws
pub mod TurnLaws
pub mod FallLaws
