mod Cuts
mod Places
mod Runs
mod Trees
