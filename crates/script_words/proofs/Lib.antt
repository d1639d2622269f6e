pub mod Digits
pub mod Joins
pub mod Fronts
pub mod HexGroups
pub mod Sizes
pub mod Readings
pub mod Plains
