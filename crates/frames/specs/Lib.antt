pub mod Stream
pub mod State
pub mod Lines
