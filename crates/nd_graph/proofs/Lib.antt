pub mod DraftLemmas
pub mod NameLaws
pub mod Agreement
pub mod CheckedLemmas
