-- What accepted device tables say; callers of other crates cite it.
pub mod Forest
mod Faults
