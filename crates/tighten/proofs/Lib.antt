-- Which devices have a posting in a tight list, and what is promised of it; the laws of the code that makes it.
mod Branches
mod Carriers
mod Smallest
pub mod Theorems
mod Leading
mod Apart
mod Following
mod Gathering
mod Course
mod Rounds
mod Outcomes
pub mod Example
