pub mod Cases
pub mod Twelve
pub mod Columns
pub mod Syndromes
