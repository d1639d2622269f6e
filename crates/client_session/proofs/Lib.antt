pub mod Drawing
pub mod Making
pub mod Slots
pub mod Tracking
pub mod Progress
pub mod Running
