pub mod Weighing
pub mod Trying
