pub mod Candidates
pub mod Answers
pub mod Calls
