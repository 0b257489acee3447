pub mod Moves
pub mod Laws
pub mod Seeds
pub mod Codes
