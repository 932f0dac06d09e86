pub mod Forms
pub mod Text
pub mod Refusals
pub mod RoundTrip
pub mod inner
