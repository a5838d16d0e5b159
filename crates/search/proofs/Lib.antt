pub mod Prefixes
pub mod Meaning
pub mod Finding
pub mod Answering
pub mod Goodness
pub mod Placing
