pub mod Cutting
pub mod CutPoints
pub mod CutPixels
