pub mod Pages
pub mod Seek
pub mod List
