pub mod Lists
pub mod Rules
pub mod History
pub mod Decided
