pub mod Forms
pub mod WideRows
pub mod GlyphParts
pub mod Adding
pub mod Counting
