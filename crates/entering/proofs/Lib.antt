pub mod Everys
pub mod Ends
pub mod Gathers
pub mod Broken
pub mod Worth
pub mod Inputs
pub mod Callables
pub mod Needing
