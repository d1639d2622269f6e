pub mod ShareLemmas
pub mod AllocationLaws
