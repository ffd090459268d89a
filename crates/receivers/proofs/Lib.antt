pub mod Choosing
pub mod Decided
pub mod Parts
pub mod Cases
