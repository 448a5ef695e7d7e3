pub mod Loaded
pub mod Replies
