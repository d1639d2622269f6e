pub mod Draws
pub mod Kinds
pub mod Places
pub mod Made
pub mod Laws
pub mod Added
