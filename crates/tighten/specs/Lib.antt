pub mod Tight
pub mod Tightened
pub mod Outcome
pub mod Promises
pub mod inner
