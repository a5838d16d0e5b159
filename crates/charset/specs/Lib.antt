pub mod Sets
pub mod Rule
pub mod Bits
pub mod Nearest
pub mod Examples
pub mod Inner
