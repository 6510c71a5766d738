pub mod Laying
pub mod Here
pub mod Slots
pub mod Bits
pub mod OnePage
