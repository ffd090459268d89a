pub mod Sign
pub mod Within
pub mod Opposites
