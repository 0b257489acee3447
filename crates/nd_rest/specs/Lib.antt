pub mod Moves
pub mod Rest
pub mod Laws
