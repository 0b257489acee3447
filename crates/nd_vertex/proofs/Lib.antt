pub mod EditsLemmas
pub mod KeptLemmas
pub mod EffectsLemmas
pub mod RemovalLemmas
