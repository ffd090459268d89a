pub mod Readings
pub mod Made
pub mod Walks
