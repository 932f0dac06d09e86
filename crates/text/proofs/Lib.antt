-- Laws of lines, numbers, patterns and forms; the readers and writers of texts cite them.
pub mod Lines
pub mod Decimal
pub mod Numerals
pub mod Patterns
pub mod Forms
pub mod Known
pub mod Spelling
pub mod Reading
