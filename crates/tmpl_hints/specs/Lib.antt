pub mod Action
pub mod Sentence
pub mod Told
pub mod Unread
