pub mod Limits
pub mod Text
pub mod Written
pub mod Number
pub mod Inner
pub mod RoundTrip
pub mod Examples
