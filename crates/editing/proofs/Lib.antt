pub mod Replacing
pub mod Reversing
pub mod Goodness
