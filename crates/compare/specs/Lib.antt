pub mod Order
pub mod Compare
pub mod Extent
pub mod Padded
pub mod Inner
pub mod Examples
