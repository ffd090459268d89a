pub mod Sizing
pub mod Decided
