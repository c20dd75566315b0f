pub mod Asked
pub mod Ended
pub mod Added
pub mod Inferred
pub mod Written
