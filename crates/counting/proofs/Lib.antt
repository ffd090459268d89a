pub mod Unnumbered
pub mod Upto
pub mod Decided
pub mod Pieces
pub mod Alike
pub mod Cases
