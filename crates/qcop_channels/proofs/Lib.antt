pub mod ChannelLemmas
pub mod DistinctLemmas
pub mod BoxLemmas
