pub mod Joining
pub mod Resuming
pub mod RoundRule
pub mod Inner
pub mod Examples
