-- Laws that every crate cites.
pub mod Tests
pub mod Cases
pub mod Search
pub mod Rows
pub mod Lists
pub mod Maps
pub mod Front
pub mod Tally
pub mod Joined
pub mod Listed
pub mod Clearing
pub mod Lent
