-- Laws of two indexes; callers of other crates cite them.
mod Rising
pub mod Accepted
pub mod Looked
