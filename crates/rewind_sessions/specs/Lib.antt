pub mod Gathered
pub mod Numbers
pub mod Openings
pub mod Orders
pub mod Runs
pub mod Served
pub mod Written
