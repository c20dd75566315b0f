-- What private contracts alone cite.
pub mod Gathering
pub mod Load
pub mod Outputs
pub mod Question
