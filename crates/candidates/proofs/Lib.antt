pub mod Rules
pub mod Calls
pub mod Ascending
pub mod Arrange
pub mod Slots
pub mod Decided
pub mod Meaning
