pub mod Few
pub mod Cuts
pub mod Heads
pub mod Places
pub mod Laws
pub mod Stages
pub mod ReadTo
pub mod Bodies
