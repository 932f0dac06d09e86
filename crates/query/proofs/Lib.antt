-- What an accepted query is, and what a query makes of codes that are no true level; callers of other crates cite them.
pub mod Accepted
pub mod TrueLevels
mod Places
