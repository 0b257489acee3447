mod Before
mod Nothing
mod Sums
mod Taken
mod Turns
mod Whole
