-- Laws of repaired lists and of a repaired index.
mod Kept
mod Interleaving
mod Furthest
mod OneMore
mod Passing
mod Counting
mod Compacting
mod Lists
pub mod Theorems
mod Rows
mod Outcomes
pub mod Example
