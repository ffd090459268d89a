pub mod Reports
pub mod Counting
pub mod Alike
pub mod Cases
