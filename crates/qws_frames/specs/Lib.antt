pub mod Layout
pub mod Stops
pub mod Encoding
