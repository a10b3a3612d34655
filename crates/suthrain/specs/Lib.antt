-- Runs: what a run of the program took and printed.
pub mod Runs
