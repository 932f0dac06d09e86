pub mod Lists
pub mod Counting
pub mod Compaction
