pub mod Reply
pub mod Served
