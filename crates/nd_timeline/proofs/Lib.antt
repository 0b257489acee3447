pub mod CopiesLemmas
pub mod KeptSteps
pub mod CheckpointLemmas
