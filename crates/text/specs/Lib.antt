pub mod Lines
pub mod Decimal
pub mod Patterns
pub mod Forms
pub mod Reading
pub mod inner
