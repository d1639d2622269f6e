pub mod EdgeLemmas
pub mod PlaceLemmas
pub mod LawLemmas
pub mod BoxLemmas
