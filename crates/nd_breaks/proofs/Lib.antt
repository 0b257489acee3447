pub mod Hits
pub mod Slots
