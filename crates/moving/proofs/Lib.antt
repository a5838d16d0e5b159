pub mod Moving
pub mod Writing
pub mod Blanking
pub mod Turning
pub mod Keeping
pub mod Pasting
