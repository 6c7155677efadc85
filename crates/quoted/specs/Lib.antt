pub mod Quoting
pub mod Firsts
pub mod Fewer
pub mod Quotes
