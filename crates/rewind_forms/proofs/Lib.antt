pub mod NamesLemmas
pub mod Values
pub mod SendBack
pub mod ReadBack
pub mod Fits
pub mod ConditionsLemmas
pub mod ReadInTurn
