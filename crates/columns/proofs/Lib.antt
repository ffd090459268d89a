pub mod Filling
pub mod Summing
pub mod Picking
pub mod Decided
