pub mod Shapes
pub mod Covers
pub mod Lifts
