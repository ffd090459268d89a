pub mod Old
pub mod Upto
pub mod Decided
