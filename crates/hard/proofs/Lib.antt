pub mod Rules
pub mod Found
pub mod Calls
pub mod Decided
pub mod Meaning
pub mod Split
