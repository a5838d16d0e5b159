pub mod Run
pub mod Resume
pub mod Inner
pub mod Examples
