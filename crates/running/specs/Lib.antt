pub mod Ending
pub mod Standing
pub mod Nodes
pub mod Evaluating
pub mod Ruling
