pub mod Polygons
pub mod Crossings
