pub mod Cuts
pub mod Front
pub mod Known
pub mod Lines
pub mod Readings
pub mod Reads
pub mod Texts
pub mod Writes
