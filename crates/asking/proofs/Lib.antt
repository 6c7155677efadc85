pub mod Asked
pub mod Options
pub mod Quotients
pub mod Columns
pub mod Combining
pub mod Stepping
pub mod Originals
pub mod Certified
