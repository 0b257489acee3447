pub mod Bytes
pub mod Forms
pub mod Ways
pub mod Search
pub mod Reach
pub mod Found
pub mod Questions
pub mod Faults
