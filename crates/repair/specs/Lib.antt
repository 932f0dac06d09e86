pub mod Kept
pub mod Repair
pub mod Refusals
pub mod Outcome
pub mod Promises
pub mod inner
