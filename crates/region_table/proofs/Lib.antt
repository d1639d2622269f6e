pub mod Packs
pub mod Reading
pub mod Telling
pub mod Pixels
pub mod SameScenes
pub mod Openings
pub mod Owning
pub mod Words
