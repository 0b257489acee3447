pub mod StateText
pub mod Objects
pub mod Sent
pub mod SentLaws
pub mod Determined
