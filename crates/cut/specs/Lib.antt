pub mod Keys
pub mod Chosen
