pub mod Lengths
pub mod PutUnless
pub mod Deep
