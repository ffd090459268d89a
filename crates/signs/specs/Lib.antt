pub mod Signs
pub mod Fillings
pub mod Tests
