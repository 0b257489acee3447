pub mod Run
pub mod Waiting
pub mod Going
pub mod Orders
pub mod AtRest
pub mod Faults
