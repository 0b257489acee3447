pub mod Walk
pub mod Summary
pub mod Steps
pub mod Laws
pub mod Fault
pub mod Row
pub mod Shared
pub mod Table
