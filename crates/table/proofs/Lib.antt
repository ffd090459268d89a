pub mod Table
pub mod Packed
pub mod Lookup
pub mod Scan
pub mod Entries
pub mod Stored
pub mod Fours
