pub mod Tests
pub mod Kinds
