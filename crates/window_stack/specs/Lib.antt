pub mod Stacks
pub mod Stops
pub mod Kept
