pub mod Fetching
pub mod Refreshing
