pub mod Scoring
pub mod Keeping
pub mod Reaching
pub mod Decided
