pub mod Written
pub mod Misreadings
