pub mod Stream
pub mod Lines
pub mod Bytes
