pub mod Indexes
pub mod Tables
pub mod Lookup
pub mod inner
