pub mod Desks
pub mod Leases
pub mod Rule
pub mod Steps
pub mod Together
pub mod Calls
