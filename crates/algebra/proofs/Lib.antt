pub mod Encoding
pub mod Distances
