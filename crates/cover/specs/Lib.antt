pub mod Boxes
pub mod Volume
