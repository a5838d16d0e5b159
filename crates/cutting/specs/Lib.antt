pub mod Cutting
pub mod Part
pub mod Inner
pub mod Examples
