pub mod Planned
pub mod Pointing
pub mod Asking
pub mod Redrawing
