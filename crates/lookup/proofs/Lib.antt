pub mod Rows
pub mod Decided
