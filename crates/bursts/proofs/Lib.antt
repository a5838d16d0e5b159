pub mod Bursting
pub mod Whole
pub mod Same
pub mod Named
