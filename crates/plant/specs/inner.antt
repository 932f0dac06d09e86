pub mod Branches
pub mod Forest
