pub mod Paints
pub mod Plain
