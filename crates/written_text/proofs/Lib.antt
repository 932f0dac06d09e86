-- Both round trips: what is written reads back, and what is read is written back.
pub mod Written
mod Taking
mod Roots
pub mod Stretches
pub mod Devices
pub mod Terms
mod WrittenReads
mod Ahead
mod Due
pub mod RoundTrip
