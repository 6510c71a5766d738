pub mod Loops
pub mod Words
