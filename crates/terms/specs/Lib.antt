pub mod Narrow
pub mod Totals
pub mod Listed
