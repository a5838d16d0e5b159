pub mod Walk
pub mod Told
pub mod Record
pub mod Placed
