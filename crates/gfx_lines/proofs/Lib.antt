pub mod StepTests
pub mod LineLemmas
pub mod StepLemmas
pub mod ReachLemmas
pub mod ColumnLemmas
