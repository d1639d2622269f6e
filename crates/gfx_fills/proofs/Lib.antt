pub mod TileLemmas
