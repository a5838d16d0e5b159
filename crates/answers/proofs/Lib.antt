pub mod Putting
pub mod Counting
pub mod Feeding
pub mod Finishing
