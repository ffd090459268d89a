pub mod Trying
pub mod Settling
pub mod Rules
pub mod Accident
pub mod Cases
