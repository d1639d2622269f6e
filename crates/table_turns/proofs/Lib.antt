pub mod Setting
pub mod Spelled
