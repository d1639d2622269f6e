pub mod Runs
pub mod Files
pub mod Steps
pub mod Verdicts
pub mod Laws
