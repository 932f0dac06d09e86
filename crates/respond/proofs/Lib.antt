-- Laws of the output: what is written after what, and how long it is.
pub mod Listing
pub mod Tables
pub mod Parts
