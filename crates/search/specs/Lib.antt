pub mod Search
pub mod Occurrence
pub mod Rule
pub mod Whole
pub mod Examples
pub mod Inner
