pub mod Covered
pub mod Logs
pub mod Lifted
