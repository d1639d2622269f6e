pub mod Laying
pub mod Planned
pub mod Pushing
