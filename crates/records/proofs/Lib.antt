pub mod Standing
pub mod Running
pub mod Decided
