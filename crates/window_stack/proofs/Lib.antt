pub mod StackLemmas
pub mod StackLaws
