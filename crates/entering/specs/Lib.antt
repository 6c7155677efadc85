pub mod Gathering
pub mod Inputs
