pub mod Publishes
pub mod Covers
pub mod Changes
pub mod Written
