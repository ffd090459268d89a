pub mod Patterns
pub mod Nearest
pub mod Positions
