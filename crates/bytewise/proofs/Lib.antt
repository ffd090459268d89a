pub mod Rules
pub mod Bytes
pub mod Decided
pub mod RoundTrips
