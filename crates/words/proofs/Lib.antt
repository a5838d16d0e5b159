pub mod Likening
pub mod Ending
pub mod Wording
pub mod Lining
