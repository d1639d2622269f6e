pub mod Due
pub mod Ends
pub mod Headline
pub mod Kept
pub mod Statuses
