pub mod Adding
pub mod Listings
pub mod Growing
pub mod Resolved
pub mod Parts
pub mod Ruling
pub mod Alone
