pub mod Find
pub mod View
