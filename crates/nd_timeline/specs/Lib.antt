pub mod Timeline
pub mod Walks
pub mod Moves
pub mod Reached
pub mod Checkpoints
pub mod Snapshot
