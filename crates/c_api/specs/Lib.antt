pub mod Handing
pub mod Interface
