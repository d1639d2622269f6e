pub mod Checks
pub mod Heads
