pub mod FaultyLines
pub mod Answers
pub mod Ahead
pub mod AtRest
pub mod Explained
pub mod Reached
pub mod Stages
