pub mod Characters
pub mod Array
pub mod Code
pub mod Cases
