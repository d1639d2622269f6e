pub mod MergeLemmas
pub mod LineLemmas
pub mod NumberLemmas
pub mod PlaceLemmas
pub mod StepLemmas
pub mod LeaveLemmas
pub mod CommentLemmas
pub mod FrontLemmas
