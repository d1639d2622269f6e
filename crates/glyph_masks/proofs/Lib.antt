pub mod BitLemmas
pub mod CellLemmas
pub mod SpellLemmas
pub mod FontLemmas
