pub mod Painted
pub mod Carried
pub mod Answers
