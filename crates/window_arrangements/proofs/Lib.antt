pub mod RequestLemmas
pub mod ArrangementLemmas
pub mod CheckLemmas
