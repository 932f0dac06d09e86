pub mod Limits
pub mod Tables
pub mod Rows
pub mod Search
pub mod Front
pub mod Joined
pub mod Lent
pub mod inner
