pub mod Pairing
pub mod Decided
