-- Where bytes are cut, where the lines of calls begin, and a line more.
pub mod Seams
pub mod Bounds
pub mod Gathered
pub mod Counts
pub mod Begins
pub mod Splits
pub mod Folds
pub mod Behind
pub mod Assets
pub mod Kept
