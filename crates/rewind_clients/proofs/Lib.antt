pub mod CommandsLemmas
pub mod EmptyLogs
pub mod OpeningLemmas
pub mod ReadersLemmas
pub mod WrittenLemmas
