pub mod Branches
pub mod List
