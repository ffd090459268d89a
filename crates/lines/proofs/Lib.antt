pub mod Lengths
pub mod Ends
