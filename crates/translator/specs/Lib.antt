pub mod Translate
pub mod Demand3
pub mod Early
pub mod Common
pub mod Inner
