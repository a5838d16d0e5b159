pub mod Bounding
pub mod Making
pub mod Goodness
pub mod Slicing
