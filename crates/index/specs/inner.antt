pub mod Lists
pub mod Parts
pub mod Outlined
pub mod Laying
