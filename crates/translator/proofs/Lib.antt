pub mod Common
pub mod Writers
pub mod Children
pub mod Rows
pub mod Leveling
pub mod Checking
pub mod Demand3
pub mod Early
