pub mod Positions
pub mod Codewords
pub mod Columns
pub mod Classes
pub mod Characters
pub mod Favours
pub mod Figures
pub mod Cases
