pub mod Edits
pub mod Effects
pub mod Items
pub mod Kept
pub mod Table
