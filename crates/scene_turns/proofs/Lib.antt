pub mod Working
pub mod Order
pub mod Logs
pub mod Sweeping
pub mod Changing
pub mod Filling
