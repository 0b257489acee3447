pub mod Clients
pub mod Intake
pub mod Intakes
pub mod Readers
