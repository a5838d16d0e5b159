pub mod Fitting
pub mod Resting
pub mod Totalling
pub mod Running
