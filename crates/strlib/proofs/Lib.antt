pub mod Refusing
pub mod Answering
pub mod Pointing
pub mod Listing
pub mod Texts
pub mod Storing
pub mod Checking
