pub mod Bursts
pub mod Inner
pub mod Whole
pub mod Examples
