pub mod Writing
pub mod inner
