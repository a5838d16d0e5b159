pub mod Turning
pub mod Choosing
pub mod Answering
pub mod Bitwise
pub mod Meaning
