pub mod Firsts
pub mod Params
pub mod Rules
pub mod Flat
pub mod Limits
