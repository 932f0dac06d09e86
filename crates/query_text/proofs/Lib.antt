-- Laws of query text.
mod LineRows
mod Turns
pub mod LevelLines
