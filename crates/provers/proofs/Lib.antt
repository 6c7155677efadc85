pub mod Limited
pub mod Pushing
pub mod Making
pub mod Starting
