pub mod Node
pub mod State
pub mod Fill
pub mod Sure
pub mod Reads
pub mod Examples
