pub mod Holding
pub mod Decided
