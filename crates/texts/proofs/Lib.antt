pub mod Buffers
pub mod Decimal
pub mod Lengths
pub mod Decided
