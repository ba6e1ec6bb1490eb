pub mod Codes
pub mod Refusal
pub mod Replies
