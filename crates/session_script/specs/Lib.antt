pub mod Stored
pub mod Named
pub mod Calls
pub mod Laws
