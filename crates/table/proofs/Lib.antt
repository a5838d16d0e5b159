pub mod Walking
pub mod Running
pub mod Resuming
pub mod Pieces
pub mod Named
