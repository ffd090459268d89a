pub mod Checks
pub mod Cases
pub mod Calls
