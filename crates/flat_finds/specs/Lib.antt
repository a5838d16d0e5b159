pub mod Finds
pub mod Runs
