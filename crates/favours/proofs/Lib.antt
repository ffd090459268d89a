pub mod Rules
pub mod Decided
pub mod Opposites
pub mod Cases
