pub mod Name
pub mod Graph
pub mod Fault
pub mod Draft
pub mod Checked
pub mod Codes
pub mod Operators
