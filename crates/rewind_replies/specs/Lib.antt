pub mod Effects
pub mod Replies
pub mod Reasons
pub mod Changes
pub mod Candidates
pub mod Times
pub mod Errors
pub mod NoFloats
