pub mod DrawLemmas
pub mod NumberWords
pub mod LineTexts
pub mod Adding
pub mod Allowed
pub mod Session
