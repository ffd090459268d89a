pub mod Tests
pub mod Xor
pub mod Linear
pub mod Ones
pub mod Places
