mod Counted
mod Firsts
mod Kept
mod Written
