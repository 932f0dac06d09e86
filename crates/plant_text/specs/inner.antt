pub mod Common
pub mod Rest
pub mod Devices
pub mod Terms
pub mod Whole
