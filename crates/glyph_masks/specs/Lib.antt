pub mod Glyphs
pub mod Texts
pub mod Columns
pub mod Places
