pub mod Whole
pub mod Turns
pub mod Zeros
pub mod Fillings
pub mod Steps
pub mod Opposite
