pub mod MovesLemmas
pub mod RunLemmas
pub mod RepliesLemmas
pub mod RunLaws
pub mod SeedsLemmas
