pub mod Bared
pub mod Carried
