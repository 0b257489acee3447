pub mod Shown
pub mod StatesTold
