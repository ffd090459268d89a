pub mod Pieces
pub mod Decided
pub mod Turning
