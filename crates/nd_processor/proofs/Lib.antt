mod Edited
mod KeptLemmas
mod Recorded
mod Seen
mod Started
