pub mod LineLaws
pub mod ReaderLaws
pub mod Refuses
