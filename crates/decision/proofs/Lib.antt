pub mod Choosing
pub mod Decided
pub mod Deciding
