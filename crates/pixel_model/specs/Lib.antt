pub mod Directions
pub mod Drawn
