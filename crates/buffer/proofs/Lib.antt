pub mod Growing
pub mod Decimal
pub mod Valuing
