pub mod LawLemmas
pub mod SoundLemmas
pub mod EncodeLemmas
pub mod FrameLemmas
pub mod Existence
