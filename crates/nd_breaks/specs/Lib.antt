pub mod Breaks
pub mod Conditions
pub mod Slots
