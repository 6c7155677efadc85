pub mod Resolving
pub mod Making
pub mod Growing
pub mod Ruling
