pub mod Adds
pub mod Added
pub mod Failing
pub mod Follows
