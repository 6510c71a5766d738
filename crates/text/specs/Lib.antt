pub mod Puts
pub mod Text
