pub mod Lists
pub mod Lines
pub mod Tables
pub mod Carries
pub mod Sessions
pub mod Publishing
pub mod Phases
pub mod Pixels
