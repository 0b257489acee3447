pub mod Keys
pub mod State
pub mod Start
pub mod Held
pub mod HeldLaws
pub mod Edits
pub mod EditsLaws
pub mod Kept
