-- Laws of plant text.
pub mod Lexing
mod Reading
mod Nesting
mod Posts
mod Index
mod Whole
pub mod Example
pub mod Row26
pub mod Numbered
