pub mod Listing
pub mod Checking
pub mod Named
