pub mod Answering
pub mod Rules
pub mod Decided
pub mod Demands
pub mod Columns
pub mod Cases
