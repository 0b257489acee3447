pub mod Waiting
pub mod Refused
pub mod Steps
pub mod Answered
