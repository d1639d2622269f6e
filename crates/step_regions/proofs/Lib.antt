pub mod Lost
pub mod Distances
pub mod Moved
