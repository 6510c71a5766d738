pub mod Marks
pub mod Walks
pub mod Exact
pub mod Turns
