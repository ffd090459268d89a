pub mod Parts
pub mod Sums
pub mod Bounds
pub mod Locals
pub mod Opposites
