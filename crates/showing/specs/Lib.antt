pub mod Lines
pub mod Marks
pub mod Kinds
pub mod Probes
pub mod Fronts
