pub mod Kinds
pub mod Misspellings
pub mod Tokens
pub mod Bytes
pub mod Cuts
pub mod Spelling
pub mod Standing
pub mod Every
