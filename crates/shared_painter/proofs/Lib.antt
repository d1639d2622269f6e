pub mod Cutting
pub mod Painting
pub mod Even
pub mod Parts
pub mod Carrying
pub mod Ending
