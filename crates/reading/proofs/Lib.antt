pub mod Checking
pub mod Calls
pub mod Decided
