pub mod Replies
pub mod Calls
