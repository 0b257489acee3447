pub mod Limits
pub mod Time
pub mod Order
pub mod Lexical
pub mod Listing
pub mod Code
