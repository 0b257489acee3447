pub mod Delta
pub mod Kept
pub mod Least
pub mod Upright
