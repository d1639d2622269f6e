pub mod Naming
pub mod Meaning
pub mod Laws
