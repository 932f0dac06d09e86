pub mod inner
pub mod Answer
pub mod Promises
