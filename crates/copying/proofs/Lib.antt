pub mod Padding
pub mod Copying
pub mod Goodness
