pub mod Limits
pub mod Rows
pub mod Meaning
pub mod Questions
pub mod Testing
