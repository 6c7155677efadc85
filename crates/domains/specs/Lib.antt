pub mod Faults
pub mod Linear
pub mod Modes
pub mod Farkas
pub mod Outcomes
pub mod Deciding
