pub mod Ranges
pub mod Operations
pub mod Rows
pub mod Bands
pub mod Runs
pub mod Around
