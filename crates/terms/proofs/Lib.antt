pub mod Filling
pub mod Holding
pub mod Units
pub mod Limiting
pub mod Bounds
pub mod Adding
pub mod Order
