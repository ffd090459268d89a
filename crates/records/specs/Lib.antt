pub mod Records
pub mod Capture
pub mod Worked
