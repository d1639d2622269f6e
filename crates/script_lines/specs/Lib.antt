pub mod Kinds
pub mod Parts
pub mod Stock
pub mod Counted
