pub mod Proposals
pub mod Derivations
pub mod Elimination
pub mod WorkLists
pub mod Lengths
