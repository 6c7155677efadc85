pub mod Limiting
pub mod Making
pub mod Shapes
pub mod Tested
pub mod Items
pub mod Same
