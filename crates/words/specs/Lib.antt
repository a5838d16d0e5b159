pub mod Ends
pub mod Alike
pub mod Words
pub mod Lines
pub mod Examples
