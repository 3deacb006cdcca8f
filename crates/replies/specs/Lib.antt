-- The definitions of the replies.
pub mod Replies
