pub mod Codewords
pub mod Classes
