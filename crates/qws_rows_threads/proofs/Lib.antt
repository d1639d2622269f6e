pub mod Heads
pub mod Painters
pub mod Rows
