pub mod Views
pub mod Replies
