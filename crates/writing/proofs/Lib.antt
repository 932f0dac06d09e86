-- Laws of what is written, and of how many digits a number has; the crates that print cite them.
pub mod Digits
pub mod Writing
