pub mod Limits
pub mod Lines
pub mod Respond
pub mod inner
