pub mod Counts
pub mod History
