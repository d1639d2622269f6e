pub mod EndLemmas
pub mod LoadRanges
pub mod FormEnds
pub mod Told
pub mod Clauses
pub mod Says
pub mod Shown
