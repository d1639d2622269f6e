pub mod Allocations
pub mod Changes
pub mod Sharing
