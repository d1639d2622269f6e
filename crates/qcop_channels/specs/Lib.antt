pub mod Views
pub mod Stops
pub mod Prepared
