pub mod Members
pub mod OrdersLemmas
pub mod OutboxLemmas
pub mod RunsLemmas
pub mod ServedLemmas
pub mod Starts
