pub mod Products
pub mod Sums
pub mod Zeros
pub mod Belows
pub mod Euclid
pub mod Weighted
pub mod Filling
pub mod Limiting
