pub mod Pointer
pub mod Quoted
pub mod Refusal
pub mod Store
pub mod Checks
