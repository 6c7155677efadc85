pub mod Sheets
pub mod Staging
pub mod Walked
pub mod Once
