-- An accepted plant text makes tables that are accepted.
mod Devices
pub mod Accepted
pub mod Made
