pub mod Query
pub mod Refusals
