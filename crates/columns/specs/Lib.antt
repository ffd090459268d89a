pub mod Places
pub mod Columns
