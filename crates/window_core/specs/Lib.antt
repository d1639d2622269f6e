pub mod Changes
pub mod CoreViews
pub mod Planning
