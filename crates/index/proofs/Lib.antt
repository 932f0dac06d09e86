-- Laws of lists of postings and of an accepted index; callers of other crates cite them.
pub mod Lists
pub mod Unshared
pub mod Outline
pub mod Starts
pub mod Accepted
pub mod Begins
pub mod Laid
pub mod Laying
pub mod Growing
mod Halving
pub mod ForwardStep
pub mod Lookup
