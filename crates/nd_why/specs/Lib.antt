pub mod Account
pub mod Why
