pub mod Lining
pub mod Marking
pub mod Listing
pub mod Probing
pub mod Placing
